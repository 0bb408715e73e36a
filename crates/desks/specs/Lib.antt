pub mod Desks
pub mod Undoing
pub mod Searching
pub mod Shown
pub mod Holding
pub mod Leaves
