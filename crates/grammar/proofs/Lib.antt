pub mod Fine
pub mod Setup
pub mod Walked
pub mod RoundTrip
pub mod Canonical
pub mod Places
pub mod Samples
pub mod Sizes
