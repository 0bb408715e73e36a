mod Places
mod Walk
mod Gaps
pub mod Rooms
pub mod Soundness
pub mod Stronger
pub mod Covering
pub mod Copying
