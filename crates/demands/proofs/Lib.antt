mod Tables
mod Calling
mod Standing
mod Saying
mod Cutting
mod Refusing
mod Wording
mod ForC
pub mod Promises
