pub mod Numbers
pub mod InOrder
pub mod Said
