pub mod Cleaning
pub mod Flushing
pub mod Gathering
pub mod Working
