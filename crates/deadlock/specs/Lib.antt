pub mod Cycles
pub mod Steps
pub mod Victim
