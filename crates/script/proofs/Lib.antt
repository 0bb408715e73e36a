pub mod Meaning
pub mod Same
pub mod Sound
pub mod Started
pub mod Written
pub mod Fronts
pub mod Bounds
pub mod Blanks
pub mod Chosen
mod Obeyed
