pub mod Looking
pub mod Acked
pub mod Rooms
mod Creating
pub mod Telling
mod Quiet
mod Same
mod Unchanged
pub mod Broken
