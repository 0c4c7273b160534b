pub mod Lists
pub mod Only
pub mod Keeping
pub mod Stepping
pub mod Parting
pub mod Meeting
