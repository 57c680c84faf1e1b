pub mod Marks
pub mod LineRules
pub mod Argument
