pub mod Apart
pub mod DescentReply
