pub mod File
pub mod Form
