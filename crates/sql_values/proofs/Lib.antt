pub mod Numbers
pub mod Declaring
