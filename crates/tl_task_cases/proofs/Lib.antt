pub mod FirstOperator
