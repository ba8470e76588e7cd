mod Patterns
mod Bytes
