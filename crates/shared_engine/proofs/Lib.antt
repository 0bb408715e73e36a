pub mod Shown
pub mod Turning
pub mod Resting
pub mod Sending
mod Zeros
