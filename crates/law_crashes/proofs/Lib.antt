pub mod AtRest
pub mod Commits
pub mod Durable
pub mod Keeps
pub mod Mount
pub mod Prefix
pub mod Records
pub mod RowScan
