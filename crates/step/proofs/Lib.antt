-- What the proofs of several functions use.
pub mod Programs
pub mod Refusing
pub mod Taking
pub mod Pictures
pub mod Frames
pub mod Doing
pub mod Terms
pub mod Leaves
pub mod Moves
pub mod Bounds
pub mod Annotations
pub mod Typings
pub mod Openings
pub mod Objects
pub mod Holes
pub mod Starts
pub mod Goals
