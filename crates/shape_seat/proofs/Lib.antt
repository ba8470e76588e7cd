pub mod Spread
pub mod Back
