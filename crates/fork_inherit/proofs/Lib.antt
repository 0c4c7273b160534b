pub mod Begun
pub mod Copied
pub mod Forked
pub mod Group
pub mod Listed
pub mod Room
pub mod Single
pub mod Starting
