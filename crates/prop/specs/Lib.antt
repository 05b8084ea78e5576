pub mod Room
pub mod View
pub mod Atom
pub mod Head
pub mod Size
pub mod Compare
