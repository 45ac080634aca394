use Rattle.std.specs.Prelude.{ℕ, Option, IfSome}
use Rattle.bpf_same.specs.LinearForms.{total, Hold}
use Rattle.bpf_same.specs.Ranges.{Lies}
use Rattle.bpf_same.proofs.relation.Relation.bounded.Given as goal

abbrev pub invariant-loop-register : goal.invariant-loop-register
invariant-loop-register l = IfSome l.found (λ r. (f g : ℕ → Option ℕ) → Hold l.self f g → Lies (total f l.form) r.low r.high)
