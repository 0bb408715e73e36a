pub mod Alone
pub mod Tables
