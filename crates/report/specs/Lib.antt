pub mod Said
pub mod Line
