pub mod Rooms
pub mod Taken
pub mod Kept
pub mod Samples
