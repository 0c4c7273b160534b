pub mod Counted
pub mod Homes
