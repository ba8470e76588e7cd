-- The theorems, and rows of them.
pub mod Commands
pub mod Ranges
pub mod Rows
pub mod Lists
pub mod Writes
pub mod Samples
