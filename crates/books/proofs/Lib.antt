pub mod Outcomes
pub mod Entering
pub mod Refusing
