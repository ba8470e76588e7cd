pub mod Places
pub mod Reads
