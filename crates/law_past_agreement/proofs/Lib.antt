pub mod Ids
pub mod Opens
pub mod Standing
pub mod Rows
pub mod Tables
pub mod Agree
pub mod Gets
pub mod Walk
