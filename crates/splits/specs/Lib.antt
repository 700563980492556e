-- The splits, to be read in this order. Tests decide a definition, or work out what a table of refusals says, and need not be believed; Loops mirror loops of the code.
pub mod Subproblems
pub mod Requests
pub mod Kinds
pub mod Splits
pub mod Checks
pub mod Refusals
pub mod AtOnce
pub mod Calls
pub mod Promises
pub mod Tests
pub mod Loops
