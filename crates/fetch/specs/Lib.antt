pub mod Places
pub mod Indexed
pub mod Indexing
pub mod Arities
pub mod Words
