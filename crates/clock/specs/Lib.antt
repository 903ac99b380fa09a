pub mod Timer
pub mod Sample
pub mod Announce
pub mod Says
pub mod Entries
pub mod Multiple
