-- That a card that is seated is the one that is read, and what the proofs of several functions use.
pub mod Laws
