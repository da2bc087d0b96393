pub mod Parts
pub mod Form
