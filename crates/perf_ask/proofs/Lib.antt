pub mod Asking
pub mod LineCounts
pub mod OrderLength
pub mod Refusing
