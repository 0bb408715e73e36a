pub mod Fitting
pub mod Tasks
pub mod State
pub mod Answers
pub mod Steps
pub mod Tables
