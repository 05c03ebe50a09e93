pub mod Lawful
pub mod Subjects
