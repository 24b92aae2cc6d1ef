pub mod Images
pub mod Asking
pub mod Sessions
pub mod Transcripts
