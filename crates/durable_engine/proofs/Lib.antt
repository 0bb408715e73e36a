mod Keeping
mod Whole
mod Taking
mod Adding
mod Seating
pub mod Others
pub mod StoppedKeeping
mod Waiting
