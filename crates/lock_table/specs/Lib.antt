pub mod Keys
pub mod Queue
pub mod Records
pub mod Empty
pub mod Room
pub mod Coverage
pub mod View
