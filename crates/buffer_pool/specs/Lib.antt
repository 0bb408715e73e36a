pub mod Fixing
pub mod Frames
pub mod Order
