pub mod Endings
pub mod Prefix
pub mod Refused
