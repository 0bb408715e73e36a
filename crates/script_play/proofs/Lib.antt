pub mod Answering
pub mod Places
pub mod SetUp
mod Calls
pub mod Making
mod Splitting
mod Leaving
mod Openings
mod Concluding
pub mod ThreadsSetUp
