pub mod Annex
