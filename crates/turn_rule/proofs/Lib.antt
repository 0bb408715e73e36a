mod Claims
pub mod Steps
