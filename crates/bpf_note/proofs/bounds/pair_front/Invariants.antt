use Rattle.std.proofs.Common.{◌≡◌, ◌++◌, take, drop}
use Rattle.bpf_note.proofs.MergeLemmas.{merged}
use Rattle.bpf_note.proofs.bounds.pair_front.Given as goal

abbrev pub invariant-loop-k : goal.invariant-loop-k
invariant-loop-k l = (take l.k l.own ++ merged (drop l.k l.initial.own) (drop l.k l.others) ≡ merged l.initial.own l.others) × (drop l.k l.own ≡ drop l.k l.initial.own)
