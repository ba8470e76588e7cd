pub mod Off
pub mod Alike
