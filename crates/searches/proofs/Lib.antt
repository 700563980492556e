pub mod Verdicts
pub mod Runs
pub mod Refusals
pub mod Passing
pub mod Picking
pub mod OneByOne
pub mod Numbers
pub mod Reaching
mod Alike
pub mod Promises
