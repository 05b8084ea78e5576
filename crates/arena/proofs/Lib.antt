-- What the proofs of several functions use.
pub mod Copies
pub mod Loads
pub mod Resolves
pub mod Makings
