pub mod PartsLeft
pub mod Keys
pub mod Pairs
