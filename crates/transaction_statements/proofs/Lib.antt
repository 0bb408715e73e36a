mod Staying
mod Ending
pub mod Stepping
pub mod Moving
pub mod Others
