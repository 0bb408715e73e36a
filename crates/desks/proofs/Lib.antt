pub mod Leaving
pub mod Showing
pub mod Counting
