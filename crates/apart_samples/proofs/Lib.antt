pub mod Samples
pub mod Spared
