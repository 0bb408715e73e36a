pub mod Guards
pub mod Stand
pub mod Barring
pub mod Waits
pub mod Settling
pub mod AtOnce
pub mod Index
