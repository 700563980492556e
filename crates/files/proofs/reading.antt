pub mod Found
pub mod Refused
pub mod Checked
