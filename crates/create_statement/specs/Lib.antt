pub mod Making
pub mod Knowing
pub mod Running
pub mod Going
