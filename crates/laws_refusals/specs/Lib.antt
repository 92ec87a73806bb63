pub mod NoneHold
