pub mod Going
pub mod Merged
pub mod Siblings
pub mod Tidied
pub mod Parents
pub mod Merges
