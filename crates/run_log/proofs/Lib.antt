pub mod Going
pub mod Samples
