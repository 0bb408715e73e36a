pub mod Alike
pub mod Held
pub mod Raising
pub mod Splitting
pub mod Tails
