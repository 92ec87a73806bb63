pub mod RingWays
pub mod TwoWays
pub mod ChainsClosed
