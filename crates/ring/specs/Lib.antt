pub mod ChainsClosed
pub mod Answers
