pub mod CompleteAtoms
pub mod CompleteConditions
pub mod CompleteExpressions
pub mod Operands
mod Settled
mod SettledExpressions
pub mod SoundAtoms
pub mod Waiting
pub mod Complete
mod InParts
pub mod Items
mod Numbers
pub mod Refused
pub mod Sound
