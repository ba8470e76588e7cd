pub mod Values
pub mod Tests
pub mod Sent
pub mod Steps
pub mod Chosen
pub mod Records
pub mod Samples
