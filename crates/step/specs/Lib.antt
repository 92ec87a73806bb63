pub mod Pasting
pub mod NumberLists
pub mod Ends
pub mod LowestFirst
pub mod Chaining
pub mod Stepping
pub mod FirstList
pub mod StepCut
