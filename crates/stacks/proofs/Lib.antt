pub mod Stack
pub mod Pieces
pub mod Many
pub mod Alone
