pub mod Stores
pub mod AtHand
pub mod Widths
