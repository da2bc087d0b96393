pub mod Puts
pub mod Breaks
pub mod Steps
