pub mod State
pub mod Calls
pub mod Going
pub mod Whole
pub mod Entering
pub mod SessionsState
pub mod Seats
pub mod StoppedCalls
