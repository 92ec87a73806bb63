pub mod TwoRings
pub mod HeldRings
pub mod Ways
pub mod Places
pub mod Stacks
pub mod StreamTests
