pub mod Places
pub mod Signals
pub mod Seats
pub mod Calls
pub mod Going
