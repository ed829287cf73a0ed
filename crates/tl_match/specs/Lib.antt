pub mod Places
pub mod Patterns
pub mod Next
pub mod Fits
pub mod Least
pub mod Front
