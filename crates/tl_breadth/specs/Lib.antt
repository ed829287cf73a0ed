pub mod PathOrder
pub mod Searched
pub mod BreadthFirst
pub mod Outcomes
pub mod Events
pub mod Reports
pub mod Laws
pub mod Traces
