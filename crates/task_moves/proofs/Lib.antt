pub mod Rotating
pub mod Switching
pub mod Turning
