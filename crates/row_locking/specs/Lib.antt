pub mod Rules
pub mod Searches
pub mod Comes
pub mod Kept
pub mod Steps
