pub mod Newest
pub mod Requirements
pub mod Profiles
pub mod Samples
