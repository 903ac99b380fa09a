pub mod Task
pub mod Table
pub mod Says
pub mod Change
