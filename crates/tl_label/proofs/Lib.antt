pub mod Lines
pub mod Parentheses
pub mod TermParts
pub mod BasicFormulas
pub mod NodeTexts
pub mod Begun
