pub mod Telling
pub mod Columns
pub mod Taken
pub mod Goes
pub mod Removed
pub mod Hindrances
pub mod Widths
