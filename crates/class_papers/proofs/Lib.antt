pub mod Fine
pub mod Adds
pub mod Alone
pub mod Samples
