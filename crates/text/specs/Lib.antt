pub mod Digests
pub mod Figures
pub mod Lines
pub mod Numerals
pub mod Pairs
