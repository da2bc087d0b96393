pub mod Passing
pub mod Drawings
pub mod Nexting
pub mod Joints
pub mod Flooded
pub mod Verdicts
