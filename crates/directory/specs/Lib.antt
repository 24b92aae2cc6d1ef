pub mod Geometry
pub mod Tables
pub mod Uses
pub mod Lawful
