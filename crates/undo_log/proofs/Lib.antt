pub mod Written
pub mod Standing
pub mod Appended
pub mod Opened
pub mod Slotted
pub mod Opening
