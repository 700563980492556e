pub mod Words
pub mod Fitting
pub mod Zero
pub mod Promises
