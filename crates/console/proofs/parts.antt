-- What the proofs of src/parts.rt and its callers use.
pub mod Runs
pub mod SoFar
