pub mod Darts
pub mod Entering
pub mod Places
pub mod Alike
pub mod Taking
pub mod Settling
