pub mod FirstTests
pub mod Matrices
pub mod Tables
