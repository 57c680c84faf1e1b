pub mod ValueLaws
pub mod ResultLaws
