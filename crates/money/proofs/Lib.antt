pub mod Search
pub mod Power
pub mod Laws
