pub mod Places
pub mod Stack
pub mod DrawnWalk
pub mod ClosedPlaces
