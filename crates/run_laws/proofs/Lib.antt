pub mod Appended
pub mod Laws
pub mod Singly
pub mod Behind
pub mod Sitting
pub mod Samples
