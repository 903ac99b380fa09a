pub mod Record
pub mod Leaves
pub mod Says
pub mod Formulas
