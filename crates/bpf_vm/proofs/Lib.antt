mod ByteLemmas
mod LookupLemmas
mod PlaceLemmas
mod RegionLemmas
mod PartLemmas
mod FindLemmas
mod ConstantLemmas
pub mod ExecuteLemmas
pub mod ExtendLemmas
pub mod DescribeLemmas
pub mod RunLemmas
pub mod CourseLemmas
pub mod CounterLemmas
mod MachineLemmas
mod AfterLemmas
mod AdvanceLemmas
mod WalkLemmas
mod OperandLemmas
mod ExitLemmas
mod PassLemmas
mod FrameLemmas
