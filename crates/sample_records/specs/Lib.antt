pub mod FieldWords
pub mod Fields
pub mod HeaderLaw
pub mod Headers
pub mod Reading
pub mod Seen
