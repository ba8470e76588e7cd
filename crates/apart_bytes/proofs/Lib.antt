pub mod Off
pub mod Lines
