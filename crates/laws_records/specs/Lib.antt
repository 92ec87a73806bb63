pub mod Words
pub mod RecordCorners
pub mod Layout
pub mod InSense
pub mod OneRecord
