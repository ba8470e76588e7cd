pub mod Bytes
pub mod Loaded
pub mod Fresh
pub mod Shapes
pub mod Begun
pub mod Lines
