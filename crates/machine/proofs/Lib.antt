pub mod Passed
pub mod Accepting
pub mod Tying
pub mod Stepping
pub mod WholeClock
pub mod Whole
pub mod Shown
pub mod AsMany
