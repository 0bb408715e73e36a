pub mod Parsed
pub mod Whole
