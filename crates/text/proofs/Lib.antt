pub mod Cutting
pub mod Pairing
pub mod Reading
pub mod Spelling
