pub mod Applying
pub mod Leaving
pub mod Looking
pub mod Pages
pub mod Reading
pub mod Recovering
pub mod Refused
