pub mod Papers
pub mod Undated
pub mod Versions
pub mod Files
