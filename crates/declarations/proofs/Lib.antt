pub mod DeclareLaws
pub mod BoundLaws
