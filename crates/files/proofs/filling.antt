pub mod Mirrors
pub mod Filled
