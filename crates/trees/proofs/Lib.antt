-- The theorems, and rows of them.
pub mod Octets
pub mod Laid
pub mod There
pub mod Heads
pub mod Back
pub mod Faults
pub mod Vectors
pub mod Samples
