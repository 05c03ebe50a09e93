pub mod SegmentLemmas
pub mod TargetLemmas
