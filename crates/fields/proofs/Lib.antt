pub mod OnwardLaws
pub mod SpotLaws
