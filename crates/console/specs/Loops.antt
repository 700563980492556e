-- What only mirrors the code.
pub mod Rooms
pub mod Fronts
pub mod Parts
