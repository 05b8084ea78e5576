-- What the proofs of several functions use.
pub mod Going
pub mod Pairs
pub mod Projections
pub mod Functions
pub mod Applications
pub mod Lets
pub mod Ors
pub mod Cases
pub mod Aborts
pub mod Leaves
pub mod Ascriptions
pub mod Settles
pub mod Dispatch
