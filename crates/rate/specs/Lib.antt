pub mod Rate
pub mod Taken
