-- What the proofs of src/numbers.rt and its callers use.
pub mod Unfit
