pub mod Weights
pub mod Hanging
pub mod Means
pub mod EdgeSides
pub mod Beside
pub mod FewCorners
pub mod Covering
