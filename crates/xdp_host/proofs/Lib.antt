pub mod AsBox
mod FaultLemmas
mod ObjectLemmas
mod BatchLemmas
pub mod AsQueueBox
mod MadeLemmas
pub mod AsCountersBox
mod SharedLemmas
mod TurnsLemmas
