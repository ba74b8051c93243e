pub mod Answers
pub mod Commands
pub mod Cursor
pub mod Editions
pub mod Reading
