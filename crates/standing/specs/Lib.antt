pub mod Found
pub mod Unpacked
