pub mod Bounds
pub mod Outcomes
pub mod Widths
