pub mod Left
pub mod Named
pub mod Replay
pub mod Seen
