pub mod Papers
pub mod Talk
pub mod Lines
pub mod Late
