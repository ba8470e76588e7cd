pub mod Lines
pub mod Whole
pub mod Recomputed
pub mod Logged
