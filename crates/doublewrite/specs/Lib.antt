pub mod Batches
pub mod Kept
pub mod Places
pub mod Repairing
