pub mod Conversation
pub mod Events
