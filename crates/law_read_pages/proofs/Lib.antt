pub mod Once
pub mod Reading
pub mod Alone
pub mod Sums
pub mod Going
