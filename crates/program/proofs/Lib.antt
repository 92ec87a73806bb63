pub mod Contracts
pub mod Outcomes
