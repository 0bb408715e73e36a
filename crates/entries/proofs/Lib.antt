pub mod Order
pub mod Edits
pub mod Found
mod Kept
