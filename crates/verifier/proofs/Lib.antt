pub mod ExamineLaws
pub mod Exactly
