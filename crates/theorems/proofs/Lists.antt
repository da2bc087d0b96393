pub mod Scan
pub mod Ones
