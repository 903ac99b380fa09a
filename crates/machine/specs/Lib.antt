pub mod Step
pub mod Making
pub mod Laws
pub mod Shown
