pub mod WellFormed
pub mod Fields
