pub mod SaveSections
pub mod SavedLength
