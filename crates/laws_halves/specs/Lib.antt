pub mod Closing
pub mod Count
pub mod Cut
pub mod Scanned
pub mod Stretch
pub mod LowerPlaces
