-- For proofs: no claim rests on this file.
-- The memory of the code, as the pair's.
use Rattle.honest_pair.specs.Machine.Memory.{Memory}
use Rattle.honest_pair.specs.Words.{words_at}
use Rattle.honest_pair.specs.declared.memory.Memory.{Memory as Kept}

abbrev pub memory_in : Kept → Memory
memory_in m = record { word = words_at m.words.items; pending = m.pending; awaits = m.awaits }
