pub mod Bringing
pub mod Ending
pub mod Fixing
pub mod UnderWay
pub mod View
