pub mod Working
pub mod WithinLaws
pub mod Counts
pub mod Serving
