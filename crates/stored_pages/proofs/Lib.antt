pub mod Newest
pub mod Sealed
