pub mod RefLaws
pub mod CellLaws
pub mod CopyLaws
pub mod FrameLaws
pub mod LimitLaws
