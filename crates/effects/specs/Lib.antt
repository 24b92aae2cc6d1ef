pub mod Alters
pub mod Reads
pub mod Writes
