pub mod Atoms
pub mod Conditions
pub mod Expressions
pub mod Parts
