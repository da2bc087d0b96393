pub mod Joins
pub mod Items
