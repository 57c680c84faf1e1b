pub mod Stands
pub mod Steps
pub mod Pauses
