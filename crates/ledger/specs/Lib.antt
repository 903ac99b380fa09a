pub mod Operate
pub mod Says
pub mod Sums
pub mod Laws
pub mod Threads
pub mod Records
