pub mod Parts
pub mod Terms
pub mod Labels
pub mod Lines
pub mod Heads
pub mod Rests
pub mod Examples
