pub mod Going
pub mod Joining
pub mod Gathering
pub mod Seats
pub mod Steps
