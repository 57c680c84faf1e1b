pub mod SignatureLaws
pub mod TypeWalk
