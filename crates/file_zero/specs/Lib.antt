pub mod Looks
pub mod Making
pub mod Reading
pub mod Refused
