pub mod Steps
pub mod StepLaws
pub mod Found
pub mod Finding
pub mod Runners
pub mod RunnerExamples
