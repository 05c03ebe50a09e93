pub mod Keeping
pub mod Writers
pub mod Logs
