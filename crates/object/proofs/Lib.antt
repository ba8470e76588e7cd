-- What the proofs of several functions and of callers use.
pub mod Lists
