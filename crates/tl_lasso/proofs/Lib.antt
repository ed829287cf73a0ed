pub mod Rulesets
pub mod LoopForms
pub mod LoopOrder
pub mod VerdictLaws
pub mod JudgeLaws
pub mod MeanLoops
