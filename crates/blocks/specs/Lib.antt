-- Blocks of a file and their check. What only mirrors a loop of the code stands in Loops; what decides a definition and need not be believed, in Tests.
pub mod Lists
pub mod Blocks
pub mod Reading
pub mod Tests
pub mod Calls
pub mod Promises
pub mod Loops
