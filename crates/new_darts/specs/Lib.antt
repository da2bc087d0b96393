pub mod Slots
pub mod Placed
pub mod News
pub mod Roles
pub mod Drafting
pub mod Sources
