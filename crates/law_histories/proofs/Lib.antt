pub mod Placing
pub mod Pieces
pub mod Alike
pub mod Entries
pub mod Outcomes
pub mod Items
pub mod Spelled
mod Conditions
mod Definitions
mod Expressions
mod Machine
pub mod OneOutcome
mod Parts
mod Replays
mod Respelled
mod Settings
pub mod Statements
mod Tokens
pub mod Refused
pub mod Answered
pub mod Ended
