-- The words of the theorems: what they say of tables, sets of darts, pairings and runs, as properties and not as tests.
-- No call cites these, nor does the session.
pub mod Lists
pub mod Slots
pub mod Sets
pub mod Masks
pub mod Maps
pub mod Pairings
pub mod Walks
pub mod Places
pub mod Sheets
pub mod Splits
pub mod Walls
pub mod Vtk
pub mod Ends
pub mod Records
pub mod Numbers
pub mod Demand
pub mod SewLists
pub mod Worked
