pub mod Sessions
pub mod Playing
