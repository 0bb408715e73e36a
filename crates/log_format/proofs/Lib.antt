pub mod Behind
pub mod Blocks
pub mod Good
pub mod Groups
pub mod Open
pub mod Scanned
pub mod Sealed
mod Streamed
pub mod TwoLaws
mod Values
