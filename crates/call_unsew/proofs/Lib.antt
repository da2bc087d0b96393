pub mod Marks
pub mod Walking
pub mod Freeing
pub mod Ends
