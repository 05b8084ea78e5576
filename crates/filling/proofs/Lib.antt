pub mod Parts
pub mod Overs
pub mod Stages
pub mod Reaching
pub mod Running
pub mod Finishing
pub mod Agree
pub mod Promises
