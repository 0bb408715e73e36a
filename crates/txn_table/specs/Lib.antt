pub mod Txns
