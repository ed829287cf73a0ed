pub mod ExplainLaws
pub mod Reaching
pub mod Following
pub mod Beginning
pub mod Failing
