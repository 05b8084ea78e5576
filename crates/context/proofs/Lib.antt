-- What the proofs of the functions use, and what callers cite.
pub mod Laws
