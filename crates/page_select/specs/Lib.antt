pub mod Ranges
pub mod Looks
pub mod Edges
pub mod Scans
pub mod Flanks
pub mod Orders
pub mod Chosen
