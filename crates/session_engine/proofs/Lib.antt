mod Signals
mod Signalled
mod Places
pub mod Others
pub mod Seating
mod Leaving
