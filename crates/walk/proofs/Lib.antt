pub mod Keys
pub mod Digits
pub mod Forms
pub mod Places
pub mod Tables
