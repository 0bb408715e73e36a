pub mod Calls
pub mod Listed
pub mod Resting
pub mod Seen
