pub mod Codes
pub mod Parts
pub mod Seen
pub mod Settling
