pub mod Journal
pub mod Logged
