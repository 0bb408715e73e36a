pub mod Behind
pub mod Claims
pub mod Consulting
pub mod Counted
