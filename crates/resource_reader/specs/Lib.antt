pub mod Reads
pub mod Names
pub mod Arrays
pub mod Fields
pub mod OwnIds
pub mod Given
pub mod Spots
