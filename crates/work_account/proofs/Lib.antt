pub mod Accounts
pub mod Among
pub mod Growing
pub mod Struck
pub mod Left
pub mod May
pub mod Reached
pub mod Sampled
pub mod Sends
pub mod Sent
pub mod Sequences
pub mod Shared
pub mod Skipped
mod Space
pub mod Steps
pub mod Walked
pub mod Walks
