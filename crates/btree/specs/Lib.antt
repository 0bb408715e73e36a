pub mod Layout
pub mod Places
pub mod Descents
pub mod Reads
pub mod Sound
pub mod Walks
