pub mod Histories
pub mod Views
pub mod Rule
pub mod Steps
pub mod Turns
pub mod Answers
pub mod Owners
