pub mod Run
pub mod Commands
pub mod Engines
