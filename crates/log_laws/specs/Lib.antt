pub mod Spoken
pub mod Owed
