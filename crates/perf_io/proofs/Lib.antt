pub mod Fronts
pub mod Additions
pub mod Wrote
pub mod Rooms
pub mod Behind
pub mod Pieces
