pub mod Room
pub mod Told
pub mod Answer
pub mod Prints
