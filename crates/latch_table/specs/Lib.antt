pub mod Targets
pub mod Held
pub mod Calls
pub mod Order
