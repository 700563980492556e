-- What a split keeps, to be read in this order.
pub mod Measure
pub mod Promises
pub mod Shortcuts
