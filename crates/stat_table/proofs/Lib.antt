pub mod Quotients
pub mod Rows
