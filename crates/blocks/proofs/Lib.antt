pub mod Texts
pub mod Fronts
