pub mod OnLiterals
mod Blog
mod TargetExamples
mod NegotiationExamples
mod QueryExamples
mod CursorExamples
mod LinkExamples
mod SchemaExamples
mod DocumentExamples
mod ListExamples
mod OperationExamples
mod PinExamples
mod PlanExamples
mod LimitExamples
pub mod Zips
pub mod Ascents
pub mod Ordered
pub mod SchemaFileLemmas
pub mod LinkageFits
pub mod FieldFits
pub mod DocumentFits
pub mod TargetFits
pub mod ListFits
pub mod CursorFits
pub mod QueryFits
pub mod PlanFits
pub mod Sources
pub mod CursorReadBack
