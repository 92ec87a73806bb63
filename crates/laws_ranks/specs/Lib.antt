pub mod Counts
pub mod Kept
pub mod Ranks
pub mod RanksAmong
pub mod Least
pub mod Numbers
pub mod Middles
pub mod Picked
