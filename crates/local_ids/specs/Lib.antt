pub mod Pairs
pub mod Bindings
