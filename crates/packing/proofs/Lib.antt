pub mod PackLaws
pub mod RoundLaws
pub mod Round
