pub mod Places
pub mod Partners
pub mod Words
pub mod Placing
pub mod Drafting
