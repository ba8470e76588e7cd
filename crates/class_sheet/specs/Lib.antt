pub mod ClassSheet
