pub mod Classes
pub mod Removals
pub mod Worked
