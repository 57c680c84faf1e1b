pub mod CallLaws
pub mod ReturnLaws
pub mod TurnLaws
pub mod EndLaws
pub mod DriveLaws
