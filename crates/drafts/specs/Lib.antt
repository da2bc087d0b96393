pub mod Drafts
pub mod Passes
