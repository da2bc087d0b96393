pub mod Reading
pub mod Rows
