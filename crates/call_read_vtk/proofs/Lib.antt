pub mod Empty
pub mod Forms
pub mod Judging
pub mod Ends
