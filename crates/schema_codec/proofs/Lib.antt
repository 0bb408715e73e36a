pub mod Each
pub mod Fields
pub mod Lengths
pub mod Loop
pub mod Puts
pub mod Schemas
pub mod Spells
