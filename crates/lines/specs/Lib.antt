pub mod Text
pub mod Says
pub mod Writing
pub mod ReadsBack
pub mod Naming
pub mod Buffer
