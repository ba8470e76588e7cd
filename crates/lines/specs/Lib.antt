pub mod Lines
pub mod Sitting
