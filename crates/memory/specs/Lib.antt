pub mod Blocks
pub mod Verdicts
pub mod Checksum
pub mod Images
pub mod ImageLaws
