pub mod Hops
pub mod Counting
pub mod Clearings
pub mod Ends
