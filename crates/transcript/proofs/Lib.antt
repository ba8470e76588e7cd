pub mod Short
pub mod Steps
pub mod Long
pub mod Going
