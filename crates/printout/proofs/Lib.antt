pub mod Text
pub mod Paper
pub mod Stack
pub mod Records
pub mod Samples
