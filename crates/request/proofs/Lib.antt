pub mod Three
pub mod Seals
pub mod Wipes
pub mod Sends
pub mod Receives
pub mod ReadsRight
