pub mod RefusalLemmas
pub mod MeasureLemmas
pub mod SegmentedLemmas
pub mod WalkLemmas
pub mod SegmentsLemmas
pub mod WriteLemmas
pub mod ImplicitSegmentedLemmas
