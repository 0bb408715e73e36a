pub mod Edits
pub mod Trees
pub mod Calls
