pub mod BeginLaws
pub mod CallLaws
pub mod LoadLaws
pub mod PrepareLaws
