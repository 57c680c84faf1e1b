pub mod Examined
pub mod Exactly
