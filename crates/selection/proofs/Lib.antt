pub mod Files
pub mod Looked
pub mod Moves
pub mod Only
pub mod Visits
pub mod Worked
