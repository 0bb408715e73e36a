pub mod Filled
pub mod Rooms
pub mod Indexed
pub mod Tables
