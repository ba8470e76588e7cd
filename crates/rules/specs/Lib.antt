pub mod Word
pub mod Rules
pub mod Limits
