pub mod Copy
pub mod Load
pub mod Make
pub mod Resolve
