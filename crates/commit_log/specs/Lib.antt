pub mod View
pub mod DraftsLogging
pub mod Drafted
pub mod DraftsView
pub mod Room
