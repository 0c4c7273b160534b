pub mod Actors
pub mod Bare
pub mod Lines
pub mod Passed
pub mod Whole
