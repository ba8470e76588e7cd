pub mod Moved
pub mod Causes
