pub mod Sorted
pub mod Puts
pub mod Places
pub mod Merges
pub mod Ranks
pub mod Walks
pub mod Splits
pub mod Joins
mod Overlays
