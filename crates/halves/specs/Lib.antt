pub mod Scans
pub mod Found
