pub mod Joined
pub mod Once
pub mod Parts
pub mod Stored
