pub mod Records
pub mod Appending
pub mod Slots
