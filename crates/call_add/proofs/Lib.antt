pub mod Drafting
pub mod Ends
