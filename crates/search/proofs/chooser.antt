pub mod Choosing
pub mod Dividing
pub mod Lone
pub mod Settling
pub mod Spreading
