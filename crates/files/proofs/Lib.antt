pub mod Lists
pub mod Tests
pub mod Whole
mod Triangle
pub mod Stacks
mod Gathered
pub mod Accepted
mod Contents
pub mod Tables
mod RoundTrip
pub mod Saving
pub mod Loading
pub mod Refusals
mod Agreeing
mod AgreeingRuns
pub mod Requests
mod Reaching
mod Diagonal
mod LoadLeaves
pub mod Back
mod Carried
mod Cut
pub mod Solutions
mod Living
pub mod OneOutcome
pub mod Outcomes
pub mod Promises
pub mod LoadOutcomes
mod SaveOutcomes
