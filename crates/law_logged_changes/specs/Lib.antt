pub mod Logs
pub mod Steps
pub mod Lagging
pub mod GoingOn
