pub mod Examples
pub mod Life
