pub mod NumberedLists
pub mod WorldNumbers
pub mod Unchanged
pub mod Unset
pub mod TableNumbers
