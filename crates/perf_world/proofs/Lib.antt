pub mod Added
pub mod Clear
mod Counted
pub mod Gone
mod Kept
pub mod Room
mod Running
mod Seats
pub mod Tables
pub mod Turning
mod TurnedGone
mod Worked
