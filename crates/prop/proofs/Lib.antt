-- What the proofs of several functions use.
pub mod Rooms
pub mod Heads
pub mod Views
pub mod Counts
pub mod Atoms
pub mod Places
pub mod Occurs
pub mod Alike
