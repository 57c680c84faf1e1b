pub mod BlockLaws
pub mod VerifyLaws
