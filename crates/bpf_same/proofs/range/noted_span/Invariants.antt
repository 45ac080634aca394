use Rattle.std.specs.Prelude.{IfSome}
use Rattle.bpf_note.specs.Parts.{facts}
use Rattle.bpf_same.specs.Ranges.{IsSpan}
use Rattle.bpf_same.proofs.range.noted_span.Given as goal

-- what is found so far bounds the register
abbrev pub invariant-loop-other : goal.invariant-loop-other
invariant-loop-other l = IfSome l.found (λ r. IsSpan (facts l.note) l.relation l.register r.low r.high)

abbrev pub invariant-loop-number : goal.invariant-loop-number
invariant-loop-number l = IfSome l.found (λ r. IsSpan (facts l.note) l.relation l.register r.low r.high)
