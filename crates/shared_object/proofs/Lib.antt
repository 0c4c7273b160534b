pub mod Prefixes
pub mod Names
pub mod Keeping
pub mod Turns
pub mod Counts
pub mod Parting
pub mod Owning
