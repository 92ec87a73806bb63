mod Siding
mod Answers
pub mod Outcomes
