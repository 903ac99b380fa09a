pub mod Entries
pub mod Enter
pub mod Says
pub mod Laws
pub mod Running
