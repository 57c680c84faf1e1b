pub mod Tables
pub mod Survey
