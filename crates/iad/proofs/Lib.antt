pub mod Runs
pub mod RoundTrip
