mod ConstantsLemmas
mod LinkLemmas
mod MapLemmas
mod OriginalLemmas
