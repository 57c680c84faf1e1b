pub mod SoundLaws
pub mod RunningLaws
pub mod Promise
