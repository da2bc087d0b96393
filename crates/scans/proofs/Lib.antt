pub mod Lowest
pub mod Skips
