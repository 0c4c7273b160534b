pub mod Calls
pub mod Served
pub mod Sharing
