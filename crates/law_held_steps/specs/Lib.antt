pub mod Making
pub mod Leaving
pub mod Begun
pub mod Hindering
