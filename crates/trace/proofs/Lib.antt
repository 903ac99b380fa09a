pub mod Outcomes
pub mod Bytes
