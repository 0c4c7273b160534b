pub mod Admitting
pub mod Demanding
pub mod Joining
pub mod Leaders
pub mod Opens
pub mod Others
pub mod Reached
pub mod Refusing
