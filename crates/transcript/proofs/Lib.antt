pub mod Replaying
pub mod Texts
