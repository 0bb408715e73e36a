pub mod Work
pub mod Trees
pub mod Space
