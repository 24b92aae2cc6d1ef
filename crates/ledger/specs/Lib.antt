pub mod Meanings
pub mod Ledger
pub mod Entries
pub mod Results
pub mod Lives
pub mod Statement
