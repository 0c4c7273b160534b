pub mod Changing
pub mod Closing
pub mod Commands
pub mod Reaching
