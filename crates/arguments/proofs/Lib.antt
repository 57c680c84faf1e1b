pub mod ReadingLaws
pub mod LoadingLaws
