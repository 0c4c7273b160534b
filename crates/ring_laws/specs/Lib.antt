pub mod Clocks
pub mod Counted
pub mod Families
pub mod Few
pub mod Growing
pub mod Losses
pub mod Tails
pub mod Taken
