pub mod Joins
pub mod Lengths
pub mod Rows
