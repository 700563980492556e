pub mod Exchanging
pub mod Packing
pub mod Turning
