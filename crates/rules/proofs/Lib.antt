pub mod Places
pub mod Limits
