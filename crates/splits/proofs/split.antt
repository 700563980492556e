pub mod ByKind
pub mod OneByOne
pub mod Places
