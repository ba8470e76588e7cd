pub mod Faithful
