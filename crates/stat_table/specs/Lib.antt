pub mod Estimates
pub mod Table
