mod Passes
mod Fives
mod Loads
mod GoingOn
pub mod Outcomes
