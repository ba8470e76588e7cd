pub mod Either
pub mod Ends
pub mod Inside
pub mod Scripting
pub mod Older
pub mod Files
