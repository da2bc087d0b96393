pub mod Good
mod Ranges
pub mod Sides
pub mod Tested
