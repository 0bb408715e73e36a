pub mod Past
pub mod Moments
pub mod Recorded
pub mod Text
pub mod Boards
