pub mod Contents
pub mod Listed
pub mod Fitting
