pub mod Kept
pub mod Tables
pub mod Steps
pub mod Going
