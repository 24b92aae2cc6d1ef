pub mod Fills
