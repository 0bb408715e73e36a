pub mod Creations
pub mod Records
pub mod Making
