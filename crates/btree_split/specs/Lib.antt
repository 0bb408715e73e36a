pub mod Halves
pub mod Placed
pub mod Ways
