pub mod Rows
pub mod Places
pub mod Cell
pub mod Exact
pub mod Chart
pub mod Add
