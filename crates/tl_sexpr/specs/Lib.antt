pub mod Tree
pub mod Bytes
pub mod Spelling
pub mod Reading
pub mod Faults
pub mod Offsets
pub mod Symbols
