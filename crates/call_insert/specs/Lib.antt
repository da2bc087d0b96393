pub mod Opened
pub mod Behind
