-- The program's text, in the order of document 01. What only mirrors a loop of the code stands in Loops.
pub mod Text
pub mod Calls
pub mod Promises
pub mod Loops
