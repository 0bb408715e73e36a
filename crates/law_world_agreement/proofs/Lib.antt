pub mod Settled
pub mod Opening
pub mod Ending
pub mod Changing
pub mod Entries
pub mod Joining
pub mod Readers
