-- Definitions that mirror a loop or a test of the code. No public contract and no promise cites them.
pub mod Writing
pub mod Lending
