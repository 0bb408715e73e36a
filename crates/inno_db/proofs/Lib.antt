pub mod Applying
pub mod Kept
pub mod Keys
pub mod Outcomes
pub mod Placing
pub mod Rising
pub mod Tables
