pub mod WritesBacks
