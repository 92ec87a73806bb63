pub mod Form
pub mod Putting
