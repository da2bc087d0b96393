pub mod Ops
pub mod Behind
pub mod Fresh
pub mod Steps
pub mod Short
pub mod Printed
pub mod Feeding
