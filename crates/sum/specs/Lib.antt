pub mod Words
pub mod Stretches
pub mod Corners
pub mod Listing
pub mod Reaches
pub mod Whole
pub mod Outcome
pub mod Entry
