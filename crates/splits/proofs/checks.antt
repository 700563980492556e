pub mod Counting
pub mod Looking
