pub mod OpenLaws
pub mod LayoutLaws
pub mod CodeLaws
