-- What the proofs of several functions use.
pub mod Records
pub mod Rooms
