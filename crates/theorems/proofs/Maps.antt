pub mod Dim
pub mod Tables
pub mod Failing
pub mod Rules
pub mod Exact
pub mod Broken
