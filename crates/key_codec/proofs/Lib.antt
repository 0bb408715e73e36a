pub mod ByteOrder
pub mod Lengths
pub mod Once
pub mod Texts
pub mod ValueOrder
