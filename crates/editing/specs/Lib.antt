pub mod Edited
pub mod Copied
pub mod Renumbered
