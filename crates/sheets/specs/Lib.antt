pub mod Spread
pub mod Found
