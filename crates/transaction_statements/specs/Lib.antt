pub mod Committing
pub mod Knowing
pub mod Running
pub mod Going
