pub mod Spelling
pub mod Faults
pub mod Sitting
pub mod Printed
pub mod Shown
