pub mod Bounds
pub mod Briefs
pub mod Narrowing
pub mod OneByOne
pub mod Reachable
pub mod Sound
pub mod Standings
pub mod Turns
