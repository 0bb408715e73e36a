pub mod Going
pub mod Taken
pub mod Cuts
pub mod Grown
pub mod Raising
pub mod Raised
pub mod Adding
pub mod Marks
