pub mod Card
pub mod Message
