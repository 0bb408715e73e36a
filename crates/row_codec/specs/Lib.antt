pub mod Heads
pub mod Reads
pub mod Refused
pub mod Rows
