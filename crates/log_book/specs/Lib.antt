pub mod Logbook
