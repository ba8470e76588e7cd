pub mod Start
pub mod Spared
