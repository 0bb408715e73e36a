mod Appended
mod Begun
pub mod Crash
mod Elsewhere
mod Flush
mod Flushed
pub mod GoesOn
mod Halves
mod Spare
