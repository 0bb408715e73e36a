pub mod Transfers
pub mod Generated
pub mod Dump
