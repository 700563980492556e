-- The search. What only mirrors a loop of the code stands in Loops; what decides a definition and need not be believed, in Tests.
pub mod Agenda
pub mod Outcomes
pub mod Calls
pub mod Cases
pub mod FirstChecks
pub mod Loops
pub mod Promises
pub mod Slots
pub mod Tests
