pub mod Leaves
pub mod Says
pub mod Decisions
