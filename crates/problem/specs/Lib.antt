-- The problem, to be read in this order. Tests decide a definition, or work out what a table of refusals says, and need not be believed; Loops mirror loops of the code.
pub mod Lists
pub mod Masks
pub mod Problem
pub mod Ranges
pub mod Beside
pub mod Matrix
pub mod Refusing
pub mod Refused
pub mod Verdicts
pub mod FirstChecks
pub mod Calls
pub mod Answers
pub mod Promises
pub mod Tests
pub mod Loops
