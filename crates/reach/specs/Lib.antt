pub mod Search
pub mod Given
