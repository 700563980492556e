pub mod Alike
pub mod Marked
pub mod Obeying
