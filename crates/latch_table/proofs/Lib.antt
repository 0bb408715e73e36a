mod Counting
pub mod Soundness
pub mod First
