pub mod ArityLaws
pub mod PlaceLaws
pub mod WordLaws
pub mod IndexingLaws
pub mod IndexLaws
pub mod InstructionLaws
