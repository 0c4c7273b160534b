pub mod More
pub mod Snoc
pub mod Sound
