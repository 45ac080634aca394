mod OneLemmas
mod ProgramLemmas
mod ReferenceLemmas
mod SoughtLemmas
mod TypeLemmas
