pub mod Counting
pub mod HistoryExamples
mod QueryExamples
mod ReachedExamples
mod RunExamples
mod StandingExamples
