pub mod Replies
pub mod Ends
pub mod Leaving
pub mod Going
pub mod Machines
