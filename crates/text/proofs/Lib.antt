pub mod Laws
pub mod Stores
pub mod Each
pub mod Fields
