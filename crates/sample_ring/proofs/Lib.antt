pub mod Blocks
pub mod Cuts
pub mod Fresh
pub mod Marks
pub mod Readers
pub mod Sending
pub mod Takes
