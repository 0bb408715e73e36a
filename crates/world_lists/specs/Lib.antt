pub mod Code
pub mod Parts
pub mod Between
