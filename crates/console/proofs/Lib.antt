pub mod OneOutcome
pub mod Refused
pub mod Going
pub mod Standing
pub mod Living
pub mod Cutting
pub mod Promises
