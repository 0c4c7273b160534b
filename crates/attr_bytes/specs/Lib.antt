pub mod Faults
pub mod Flags
pub mod Kinds
pub mod Layout
pub mod Standing
