pub mod Outside
pub mod Streams
pub mod Counts
pub mod MemSource
pub mod MemSink
pub mod Wrote
pub mod Rooms
