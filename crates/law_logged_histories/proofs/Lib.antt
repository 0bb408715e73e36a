pub mod Outcomes
pub mod Turns
pub mod Ends
pub mod Kept
pub mod Tables
pub mod Records
pub mod Declared
pub mod Fits
pub mod Names
mod Tokens
