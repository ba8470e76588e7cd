pub mod Singly
pub mod Behind
