-- A search over any machine that holds a stack of subproblems, in the order of document 01. There is no code here.
pub mod Verdicts
pub mod Machines
pub mod Steps
pub mod Runs
pub mod Chooser
pub mod Reached
pub mod Promises
pub mod Tests
