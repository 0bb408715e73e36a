pub mod Rooms
pub mod Owed
pub mod Holding
