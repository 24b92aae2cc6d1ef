pub mod Responses
pub mod Lengths
pub mod Readouts
