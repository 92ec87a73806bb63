pub mod Sums
pub mod Ways
pub mod Merge
pub mod Merged
pub mod MergePlaces
pub mod TwoMerges
pub mod FewCorners
pub mod Beyond
