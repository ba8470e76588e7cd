pub mod Stores
pub mod Longest
pub mod Plain
pub mod Samples
