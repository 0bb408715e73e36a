pub mod Numbers
pub mod Standing
pub mod Bodies
pub mod Lengths
pub mod Answered
