pub mod Fitting
pub mod RowChanges
pub mod Beside
