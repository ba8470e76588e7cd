pub mod State
pub mod Ruling
