pub mod Falling
pub mod Found
pub mod Rounds
pub mod Under
