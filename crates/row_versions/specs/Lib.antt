pub mod Chains
pub mod Laws
pub mod Versions
pub mod Calls
