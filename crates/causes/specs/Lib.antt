pub mod Leaving
pub mod Firsts
pub mod Possible
pub mod Orders
pub mod Answering
