pub mod Cpace
