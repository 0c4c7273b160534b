pub mod Demanded
pub mod Faults
pub mod Opened
