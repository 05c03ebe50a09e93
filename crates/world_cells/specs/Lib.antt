pub mod CellLaws
pub mod CellOrder
pub mod Decided
pub mod Lists
pub mod Reads
pub mod Slots
pub mod World
