pub mod Exceeds
