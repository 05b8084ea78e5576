pub mod Mark
pub mod Rest
pub mod Ran
pub mod Promises
