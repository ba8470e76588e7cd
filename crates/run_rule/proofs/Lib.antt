pub mod Walk
pub mod Rulings
