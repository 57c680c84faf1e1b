pub mod ContinueLaws
pub mod StandLaws
pub mod StepLaws
pub mod LoadLaws
pub mod BuildLaws
pub mod BranchLaws
pub mod OneLaws
pub mod LoopLaws
