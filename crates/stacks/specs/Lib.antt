pub mod Pieces
pub mod Alone
