pub mod Numbering
pub mod Unchanged
pub mod Unset
pub mod TableNames
pub mod TableNumbers
pub mod KnownAfter
