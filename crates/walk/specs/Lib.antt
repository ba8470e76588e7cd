pub mod Marks
pub mod Walk
