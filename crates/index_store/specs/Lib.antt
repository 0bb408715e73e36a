pub mod State
pub mod Indexes
pub mod Undoing
pub mod AtHand
