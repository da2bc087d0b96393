pub mod Changes
pub mod Drafts
pub mod Commits
pub mod Passes
pub mod Carrying
