pub mod Text
pub mod Stack
pub mod Records
