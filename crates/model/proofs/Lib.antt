pub mod Worked
pub mod WorkedSession
pub mod WorkedVtk
