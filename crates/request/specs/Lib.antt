pub mod Asks
pub mod Parts
pub mod Answers
pub mod Sent
