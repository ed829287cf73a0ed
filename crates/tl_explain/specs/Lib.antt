pub mod Explain
pub mod Causes
pub mod LawsExplain
pub mod Explanations
