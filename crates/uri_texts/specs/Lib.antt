pub mod LinkLaws
pub mod Texts
