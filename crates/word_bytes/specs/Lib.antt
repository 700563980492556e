-- Words in bytes, and what each call on them makes and leaves.
pub mod Bytes
pub mod Calls
pub mod Promises
