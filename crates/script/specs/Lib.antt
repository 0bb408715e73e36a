pub mod Reading
pub mod Script
pub mod Writing
pub mod Lines
pub mod Names
pub mod Parts
pub mod Directives
