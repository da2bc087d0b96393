pub mod Ends
pub mod Determined
