pub mod AtOnce
pub mod Halves
