mod Along
mod Circles
mod DepthFirst
mod Edges
mod First
pub mod Lists
mod Loop
mod Order
pub mod Rooms
mod Rounds
mod VictimLemmas
mod Waits
