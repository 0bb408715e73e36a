pub mod Rows
pub mod Pages
pub mod Undo
pub mod Stores
pub mod Durable
