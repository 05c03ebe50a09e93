pub mod Documents
pub mod Fetches
pub mod Gathering
pub mod Linked
pub mod Pairs
