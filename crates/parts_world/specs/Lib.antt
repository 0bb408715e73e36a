pub mod Parts
pub mod AtHand
