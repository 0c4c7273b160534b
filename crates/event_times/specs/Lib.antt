pub mod Stretches
pub mod Times
