pub mod Below
pub mod First
