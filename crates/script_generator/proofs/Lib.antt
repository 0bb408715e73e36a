pub mod Appended
pub mod Playable
pub mod Steps
pub mod DumpAppended
