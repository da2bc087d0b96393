pub mod Asked
pub mod Names
