pub mod Counter
pub mod LateOpen
