pub mod Rows
pub mod Tails
pub mod Said
pub mod InRange
pub mod Offsets
pub mod Whole
