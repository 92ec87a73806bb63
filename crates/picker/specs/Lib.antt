pub mod Keys
pub mod KeyLaws
pub mod Picking
pub mod Promise
