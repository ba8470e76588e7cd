pub mod RunBlock
