pub mod Counting
pub mod Giving
pub mod Made
pub mod Working
pub mod Whole
