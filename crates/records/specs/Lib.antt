pub mod Codes
pub mod Events
pub mod Statuses
pub mod Layouts
pub mod Entries
pub mod Lengths
pub mod Readings
pub mod Wholes
