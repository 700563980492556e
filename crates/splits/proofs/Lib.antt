pub mod Apart
pub mod Numbering
pub mod Promises
