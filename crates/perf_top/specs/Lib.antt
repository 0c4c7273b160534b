pub mod Attributes
pub mod LineRoom
pub mod Outcome
