pub mod Sized
pub mod Told
pub mod Found
pub mod Near
pub mod RuleOf
pub mod Four
