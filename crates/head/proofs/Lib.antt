pub mod Writing
pub mod Bytes
pub mod TriggerBytes
pub mod RowLaws
pub mod PieceLaws
pub mod Cuts
pub mod HeadLaws
pub mod Frames
