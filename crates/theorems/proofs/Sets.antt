pub mod Links
pub mod Masks
pub mod Closure
pub mod Pigeon
pub mod Escape
pub mod Least
pub mod Classes
pub mod Sizes
