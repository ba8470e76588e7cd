pub mod Writes
pub mod Commands
pub mod Laws
pub mod Stays
pub mod Vectors
