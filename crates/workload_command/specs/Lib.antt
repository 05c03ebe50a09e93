pub mod Words
pub mod Tallies
pub mod Counts
pub mod Blog
pub mod Workloads
