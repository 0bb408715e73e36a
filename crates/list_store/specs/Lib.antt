pub mod Slots
pub mod Kept
pub mod Parts
pub mod Memory
