pub mod CallKept
pub mod CallArms
pub mod CliqueReply
pub mod Refusals
