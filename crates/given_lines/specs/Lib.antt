pub mod Given
pub mod Giving
pub mod Heads
pub mod Passing
