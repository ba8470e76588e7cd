pub mod Rows
pub mod Text
pub mod Places
