pub mod Notices
pub mod Pipes
pub mod Outputs
