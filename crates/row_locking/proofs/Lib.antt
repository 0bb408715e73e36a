pub mod Fits
pub mod Coming
pub mod Going
pub mod Walking
pub mod Visiting
