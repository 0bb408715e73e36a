pub mod Applied
pub mod Committing
pub mod Heads
pub mod HeldRows
pub mod Keeping
pub mod Readings
pub mod Stages
