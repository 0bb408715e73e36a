pub mod Followed
pub mod Laid
pub mod Least
pub mod Placing
pub mod Put
pub mod Records
