pub mod Kept
pub mod Written
pub mod Witness
pub mod Fields
pub mod Imports
pub mod Samples
