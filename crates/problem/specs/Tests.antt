pub mod FirstChecks
