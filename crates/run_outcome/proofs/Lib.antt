pub mod Fronts
pub mod Limits
mod Sent
pub mod Telling
pub mod Copying
pub mod Going
mod Counting
