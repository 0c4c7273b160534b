pub mod Acts
pub mod Faults
pub mod Forms
pub mod Lines
pub mod Meaning
pub mod Printing
pub mod Saying
pub mod Texts
