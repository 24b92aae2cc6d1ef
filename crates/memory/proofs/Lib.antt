pub mod ImageBlocks
pub mod BareBlocks
pub mod CheckedBlocks
pub mod CorruptSearch
