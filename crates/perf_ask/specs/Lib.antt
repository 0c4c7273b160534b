pub mod Asking
pub mod Notes
pub mod Reading
