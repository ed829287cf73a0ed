pub mod Entries
pub mod Kept
pub mod Remembered
pub mod KeptOnce
pub mod Spaces
pub mod Inner
pub mod Ways
