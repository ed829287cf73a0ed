pub mod Rulesets
pub mod PlanOrder
pub mod LinesReadBack
pub mod AfterLine
pub mod PlanReadBack
pub mod TraceLines
