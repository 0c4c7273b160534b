pub mod Laws
pub mod Said
pub mod Summary
pub mod Told
