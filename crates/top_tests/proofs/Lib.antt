mod Counting
pub mod LateOpens
