pub mod Doubts
pub mod Loops
pub mod Rings
pub mod Scans
pub mod Standings
pub mod Tables
