pub mod Compared
pub mod Facts
