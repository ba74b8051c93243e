pub mod RowTexts
pub mod Texts
