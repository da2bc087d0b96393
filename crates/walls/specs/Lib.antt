pub mod Given
pub mod Steps
pub mod Tests
