pub mod Domains
pub mod Rows
pub mod Subproblems
