pub mod LetterLaws
pub mod TableLaws
pub mod MarkLaws
pub mod TextLaws
pub mod ScanLaws
pub mod WrittenLaws
pub mod Argument
pub mod LinesExact
