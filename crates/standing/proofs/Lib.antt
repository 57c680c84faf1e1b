pub mod StandingLaws
pub mod Unpacked
