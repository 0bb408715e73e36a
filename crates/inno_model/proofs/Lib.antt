pub mod Untouched
pub mod Commits
pub mod Keeping
pub mod Places
