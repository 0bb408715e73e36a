pub mod Sessions
pub mod Changing
pub mod Ids
pub mod Telling
pub mod Keying
pub mod Pushed
pub mod Awaited
pub mod Alone
