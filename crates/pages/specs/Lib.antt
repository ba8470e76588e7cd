pub mod Stack
pub mod Turn
