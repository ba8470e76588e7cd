pub mod Text
pub mod Logged
