pub mod Filling
pub mod Rising
pub mod Sound
pub mod There
