pub mod Marks
pub mod Masks
