pub mod Opened
pub mod Laid
pub mod Fit
