mod Afterwards
pub mod Cleaned
mod Counting
mod Gathered
mod Going
mod Holding
pub mod Home
pub mod Homes
mod Outlasting
mod Runs
mod Sealing
mod Told
