pub mod Rests
pub mod Steps
pub mod Laws
pub mod Named
pub mod Samples
