pub mod Commits
pub mod Histories
pub mod Laws
pub mod Standing
pub mod Trials
