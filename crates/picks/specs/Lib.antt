pub mod Enter
pub mod Queued
pub mod Beside
