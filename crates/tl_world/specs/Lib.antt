pub mod View
pub mod WorldCode
pub mod Gathered
pub mod MatchReading
pub mod Falling
pub mod Edits
pub mod Calls
