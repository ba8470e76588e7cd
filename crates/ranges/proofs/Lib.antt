pub mod Decides
pub mod Accepted
