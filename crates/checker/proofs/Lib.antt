-- What the proof of the cycle uses.
pub mod Turns
