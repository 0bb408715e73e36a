pub mod Dealt
pub mod Edits
pub mod Grouped
pub mod View
