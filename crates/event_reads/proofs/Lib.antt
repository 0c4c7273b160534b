pub mod Homes
pub mod Opened
pub mod Whole
pub mod Wording
