pub mod Spots
pub mod Locks
pub mod Guarding
pub mod Places
pub mod Clashes
pub mod Pinning
pub mod Granting
pub mod Outside
pub mod GivenBack
pub mod Members
pub mod Parts
pub mod Edges
mod Calls
mod Removal
pub mod Rounds
mod Starting
pub mod AtOnce
pub mod InsertionSpots
mod Ended
