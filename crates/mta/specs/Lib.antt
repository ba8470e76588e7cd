pub mod Mta
