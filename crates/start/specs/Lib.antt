pub mod Runs
pub mod Begins
