pub mod MoreTables
pub mod Rows
pub mod Writing
