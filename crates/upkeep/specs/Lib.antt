pub mod Upkeep
