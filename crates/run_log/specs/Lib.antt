pub mod RunLog
