pub mod ForEach
pub mod Names
pub mod MadeLines
pub mod Sound
pub mod Weights
pub mod States
