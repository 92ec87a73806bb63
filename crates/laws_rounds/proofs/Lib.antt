pub mod Rounds
pub mod WholeList
