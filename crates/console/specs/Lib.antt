-- The calls for C, each over everything that goes in and out. What only mirrors the code stands in Loops.
pub mod Calls
pub mod Searches
pub mod Promises
pub mod Loops
