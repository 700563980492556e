pub mod Kinds
pub mod Around
