pub mod Answers
pub mod Rests
pub mod Marks
pub mod Runs
pub mod Promises
