pub mod Cells
pub mod Newest
pub mod Samples
