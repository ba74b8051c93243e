pub mod Decimals
pub mod PutTexts
