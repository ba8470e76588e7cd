pub mod Stores
pub mod Octets
