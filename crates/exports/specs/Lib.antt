pub mod Told
pub mod Picks
pub mod Hands
pub mod Doors
pub mod Rings
pub mod Rounds
pub mod Bridges
pub mod Chains
