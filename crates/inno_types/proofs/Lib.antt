pub mod ByteOrder
pub mod Fronts
pub mod Words
