pub mod NeighbourTest
pub mod TurnsMakeChain
pub mod ListsFit
pub mod PassingSplits
pub mod FitPasses
pub mod Recognised
