pub mod BothSides
pub mod Promise
