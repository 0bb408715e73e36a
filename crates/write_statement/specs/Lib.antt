pub mod Following
pub mod Parts
pub mod Settling
pub mod Running
pub mod Going
