pub mod Slopes
pub mod Tops
pub mod Keeping
pub mod Saying
pub mod Promise
