pub mod Staying
pub mod Moving
mod Settings
pub mod Standing
mod Ordered
mod Keeping
pub mod MoreTables
