pub mod Pasts
pub mod Newest
pub mod Saves
pub mod Counting
