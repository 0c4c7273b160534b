pub mod Ends
pub mod Sampling
pub mod Visits
pub mod Walks
