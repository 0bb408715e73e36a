mod Alone
mod Fitting
