mod CommandLineLemmas
mod ExplainLemmas
mod FilterLemmas
mod InputLemmas
pub mod CounterLineLemmas
mod TurnsLemmas
