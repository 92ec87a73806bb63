pub mod Bridging
pub mod Promising
pub mod Outcomes
