pub mod Creating
pub mod Declaration
pub mod Loading
pub mod Makeable
pub mod Tables
pub mod Entry
pub mod Reading
pub mod Refused
