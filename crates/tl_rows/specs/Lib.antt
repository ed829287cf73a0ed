pub mod Plain
pub mod Places
pub mod Codes
pub mod RowTests
pub mod Cuts
pub mod Runs
pub mod Tables
pub mod Second
