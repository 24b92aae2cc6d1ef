pub mod Triggers
pub mod Rows
pub mod Tables
pub mod Laws
pub mod Kinds
