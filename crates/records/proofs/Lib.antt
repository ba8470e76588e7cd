pub mod Scripts
pub mod Readable
