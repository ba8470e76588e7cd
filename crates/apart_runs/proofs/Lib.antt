pub mod Rooms
pub mod Apart
pub mod Selected
