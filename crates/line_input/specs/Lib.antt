pub mod Ahead
pub mod Bytes
pub mod LineEnds
pub mod Heads
