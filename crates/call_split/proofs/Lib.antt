pub mod Ones
pub mod Room
pub mod Ends
