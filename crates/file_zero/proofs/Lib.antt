pub mod Applied
mod FirstPage
mod Kept
mod NewFiles
mod Places
mod Refusals
mod Results
mod Stored
mod GoingOn
mod Zeroing
mod ZeroRest
