pub mod Marked
pub mod Places
pub mod Taken
