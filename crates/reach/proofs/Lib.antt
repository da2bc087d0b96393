pub mod Marks
pub mod Meeting
pub mod Flooding
pub mod Reached
