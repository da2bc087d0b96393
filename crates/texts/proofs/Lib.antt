pub mod Comparing
pub mod Reading
pub mod Writing
