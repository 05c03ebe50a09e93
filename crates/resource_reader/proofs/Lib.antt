mod Items
pub mod Taken
