pub mod TraceLemmas
pub mod TaskLemmas
pub mod StepLemmas
pub mod BoundLemmas
