pub mod Marks
pub mod Words
pub mod Numbers
pub mod Told
pub mod Ends
pub mod Samples
