pub mod Shown
pub mod Lingering
