-- Saved searches. What only mirrors a loop of the code stands in Loops.
pub mod Blocks
pub mod Content
pub mod Reading
pub mod Outcomes
pub mod Calls
pub mod Promises
pub mod Loops
