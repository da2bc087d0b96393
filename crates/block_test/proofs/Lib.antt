pub mod Seen
pub mod Scan
