pub mod StepLemmas
mod LabelLemmas
pub mod EdgeLemmas
mod WorkedLemmas
pub mod SoundLemmas
pub mod AnswerLemmas
pub mod RegisterLemmas
pub mod IdLemmas
pub mod ComputeLemmas
pub mod SumLemmas
pub mod ResultLemmas
pub mod ReachLemmas
pub mod LoadLemmas
pub mod ConstantLemmas
pub mod StoreLemmas
pub mod JumpLemmas
pub mod CallLemmas
pub mod StackLemmas
pub mod GivesLemmas
pub mod LeadLemmas
pub mod CauseLemmas
pub mod SetLemmas
pub mod BehindLemmas
pub mod ReadingLemmas
pub mod KeptLemmas
