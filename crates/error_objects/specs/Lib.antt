pub mod Codes
pub mod ErrorReply
pub mod Refusals
