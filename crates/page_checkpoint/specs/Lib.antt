pub mod Beginning
pub mod Header
pub mod Checkpoints
