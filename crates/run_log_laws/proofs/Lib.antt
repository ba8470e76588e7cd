pub mod Answers
pub mod Said
pub mod Rings
pub mod Behind
pub mod Log
pub mod Papers
