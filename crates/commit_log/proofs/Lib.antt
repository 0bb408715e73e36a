pub mod Logging
mod Cut
mod DraftSpelling
pub mod Short
