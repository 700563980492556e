-- Definitions that decide others. Promises say exactly what they give, so that they need not be believed.
pub mod Whole
