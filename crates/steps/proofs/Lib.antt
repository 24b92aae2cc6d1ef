pub mod Growth
pub mod Speaking
pub mod Steady
