pub mod Selection
pub mod Visits
