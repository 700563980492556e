pub mod Lists
pub mod Words
pub mod Contents
pub mod Blocks
pub mod Tests
pub mod Whole
pub mod Promises
