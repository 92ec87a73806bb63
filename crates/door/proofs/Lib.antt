pub mod Floats
pub mod Answers
pub mod Written
pub mod Entry
pub mod Outcomes
