pub mod Display
pub mod Recomputed
