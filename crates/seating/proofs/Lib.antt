-- That what is stored is read back.
pub mod Back
