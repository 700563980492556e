-- Tests that decide what is defined elsewhere. What they give is said exactly by a promise, so that they need not be believed.
pub mod Refusal
