pub mod Laws
pub mod Parts
pub mod Rows
pub mod Lines
pub mod Samples
