pub mod Halves
pub mod Marks
pub mod Spreading
pub mod Layers
