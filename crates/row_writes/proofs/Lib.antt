pub mod Backs
pub mod Leading
pub mod Rewriting
