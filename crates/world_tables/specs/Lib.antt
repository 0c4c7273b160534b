pub mod Codes
pub mod Columns
pub mod Marks
pub mod Meters
pub mod Places
pub mod Rows
pub mod Samplers
