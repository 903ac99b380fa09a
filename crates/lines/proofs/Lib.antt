pub mod Decimal
pub mod Stores
pub mod Signs
pub mod Whole
pub mod Sizes
pub mod ReadsBack
pub mod Named
