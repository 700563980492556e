-- What the proofs of src/fronts.rt and its callers use.
pub mod Measuring
pub mod Reaching
