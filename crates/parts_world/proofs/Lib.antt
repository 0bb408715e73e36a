pub mod Results
pub mod Requests
pub mod Sound
pub mod Lifting
pub mod Logs
