pub mod Ladder
pub mod Verdicts
pub mod Settled
pub mod Opened
pub mod Given
pub mod Determined
pub mod Commits
pub mod Layered
