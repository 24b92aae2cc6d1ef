pub mod Firsts
pub mod Memory
pub mod Asking
pub mod Deciding
pub mod Earlier
pub mod Sizes
pub mod Leaves
pub mod Answering
