pub mod Changes
pub mod Fences
pub mod Found
pub mod Refused
pub mod Shape
pub mod Words
