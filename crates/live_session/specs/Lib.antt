pub mod Texts
pub mod Turns
pub mod Sessions
pub mod Going
pub mod Outcome
pub mod Journal
