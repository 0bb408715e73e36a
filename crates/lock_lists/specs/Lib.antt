pub mod Last
pub mod Keys
pub mod Places
pub mod Looking
