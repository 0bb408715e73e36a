pub mod Order
pub mod Rows
pub mod Slots
pub mod Ids
pub mod Agreement
pub mod DatabaseTables
