mod Creations
mod Tables
mod Staying
mod Stepping
pub mod Moving
pub mod Others
pub mod Rooms
