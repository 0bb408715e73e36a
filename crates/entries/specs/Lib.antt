pub mod Pairs
pub mod Places
pub mod Index
pub mod Calls
pub mod Lists
