pub mod Calls
pub mod Made
pub mod Searching
pub mod Changing
pub mod TakingBack
