pub mod Finds
pub mod Walks
pub mod FaultWords
