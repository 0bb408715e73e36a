mod Fronts
pub mod Joined
mod Shorter
