pub mod Layout
pub mod Pieces
pub mod Heads
pub mod Order
pub mod Laws
