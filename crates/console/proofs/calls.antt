-- What the proofs of src/calls.rt use.
pub mod Lending
pub mod Refusing
