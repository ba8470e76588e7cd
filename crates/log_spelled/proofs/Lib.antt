pub mod Numbers
pub mod Log
pub mod Samples
