pub mod Kinds
pub mod Spots
pub mod Conflicts
pub mod Ranges
pub mod Rules
pub mod Coverage
