pub mod Passing
pub mod Numbering
pub mod Counting
pub mod Told
