pub mod Count
pub mod Whole
pub mod Examples
