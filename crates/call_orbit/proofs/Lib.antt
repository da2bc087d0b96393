pub mod Masks
pub mod Ends
