pub mod Fill
pub mod Steps
pub mod Agree
pub mod Promises
