pub mod Reply
pub mod Checked
pub mod Apart
pub mod Resumed
pub mod ReadOut
pub mod CliqueReply
