pub mod TwoChains
pub mod HeldChains
pub mod RingPromise
pub mod RingWritten
