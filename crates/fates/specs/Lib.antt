pub mod Stagings
pub mod Fates
