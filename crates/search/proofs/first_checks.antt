pub mod Admitting
pub mod Apart
pub mod Deserved
pub mod FirstOrder
pub mod FirstParts
pub mod FirstPassing
pub mod Zeros
