pub mod Turnstile
pub mod Steps
