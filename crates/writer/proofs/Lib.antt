pub mod FourBytes
pub mod Outcomes
