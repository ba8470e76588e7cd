pub mod All
pub mod Exactly
pub mod Samples
