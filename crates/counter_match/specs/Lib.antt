pub mod Search
pub mod Seating
pub mod Stored
pub mod Paths
