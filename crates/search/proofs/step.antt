pub mod Accepting
pub mod Candidates
pub mod Gathering
pub mod Keeping
pub mod Shapes
pub mod Stepping
