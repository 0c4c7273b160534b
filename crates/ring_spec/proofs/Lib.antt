pub mod Agreement
pub mod Conserved
pub mod Cutting
pub mod Lawful
pub mod Overflowing
pub mod Rings
pub mod Running
pub mod Sizes
