pub mod Changing
pub mod Empty
pub mod Finding
pub mod Growing
pub mod New
pub mod Resting
pub mod Widths
