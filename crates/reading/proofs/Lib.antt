pub mod Passed
pub mod Rules
pub mod Neighbours
pub mod Four
pub mod Found
