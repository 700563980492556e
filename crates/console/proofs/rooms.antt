-- What the proofs of src/rooms.rt and its callers use.
pub mod Testing
