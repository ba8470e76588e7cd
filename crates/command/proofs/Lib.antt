pub mod Selecting
pub mod Readable
