pub mod Owing
pub mod Held
