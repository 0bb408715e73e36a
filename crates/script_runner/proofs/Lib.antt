mod Stepping
pub mod Following
pub mod Untouched
pub mod Causing
pub mod Reporting
pub mod Loading
pub mod Unknown
mod Taking
