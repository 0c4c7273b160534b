pub mod HeaderBytes
pub mod Joining
pub mod Pads
