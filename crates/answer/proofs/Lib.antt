pub mod Writing
pub mod Decimals
pub mod Lines
pub mod Short
pub mod Made
pub mod Answering
pub mod Promises
pub mod Saying
mod Fitting
pub mod Example
