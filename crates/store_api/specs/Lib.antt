pub mod Areas
pub mod Causes
pub mod Looks
pub mod Past
