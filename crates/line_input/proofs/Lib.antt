pub mod Taking
pub mod Fronts
pub mod LineParts
pub mod EndLines
pub mod Heads
