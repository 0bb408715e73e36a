pub mod Passing
pub mod Chosen
pub mod Shown
pub mod Standing
pub mod Steps
pub mod Rows
pub mod Passed
