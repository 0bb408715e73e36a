pub mod Finding
pub mod Pasts
pub mod Plans
