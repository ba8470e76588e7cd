pub mod Laws
pub mod Cursor
