pub mod Returning
pub mod Promises
