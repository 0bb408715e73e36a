pub mod Bytes
pub mod Finding
pub mod Whole
pub mod Steps
pub mod InLeaf
