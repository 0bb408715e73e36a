pub mod Bodies
pub mod Entries
pub mod Keeping
pub mod Kept
pub mod Meeting
pub mod Placed
