mod Basics
pub mod Examples
mod FitRows
mod FullLinkage
mod Keeps
pub mod Lawful
mod LinkChanges
mod ListExamples
mod Links
mod PageExamples
mod Paging
mod PlainReplies
mod PlainResources
mod ReachExamples
mod Reaching
mod Rows
mod Runs
mod ShownLinks
mod Sources
mod Strict
mod Uniqueness
mod Valid
mod ValidExamples
mod WorldRows
