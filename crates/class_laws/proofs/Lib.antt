pub mod Paid
pub mod Taking
pub mod Order
pub mod Totals
pub mod Samples
