pub mod Deserved
pub mod Joining
pub mod Order
pub mod Parts
pub mod Passing
