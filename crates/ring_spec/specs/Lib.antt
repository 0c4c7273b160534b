pub mod Account
pub mod Agreement
pub mod Records
pub mod Rings
pub mod Running
pub mod Sending
pub mod Whole
