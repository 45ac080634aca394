-- What a slot tells, it tells along edges of the flow graph.
use Rattle.std.proofs.Common.{◌≡◌, ◌⊎◌, inl, inr, ℕ, List, [], ◌∷◌, ◌++◌, Option, Some, None, refl, length}
use Rattle.std.specs.Prelude.{Ok, Err, slice_get}
use Rattle.bpf_insn.specs.Code.{IsCode}
use Rattle.bpf_insn.specs.declared.insn.Insn.{Insn}
use Rattle.bpf_note.specs.Shape.{Shape}
use Rattle.bpf_note.specs.Facts.{Facts}
use Rattle.bpf_flow.specs.Graph.{Leads}
use Rattle.bpf_flow.specs.Edges.{Edges, Answer}
use Rattle.bpf_flow.specs.Rule.{after_of}
use Rattle.bpf_flow.proofs.LeadLemmas.{Speaks, rule_leads}
use Rattle.bpf_verify.specs.Edges.{Edge}
use Rattle.bpf_verify.specs.FirstRefusal.{IsStructured}
use Rattle.bpf_verify.specs.Gathered.{rule_by, rule_at, allowed, told}
use Rattle.bpf_verify.proofs.FlowLemmas.{structured_edge}

pub speaks_append : (es fs : Edges) (q : ℕ) → Speaks (es ++ fs) q → Speaks es q ⊎ Speaks fs q
speaks_append [] fs q s = inr s
speaks_append (e ∷ es) fs q (inl at) = inl (inl at)
speaks_append (e ∷ es) fs q (inr s) = elim (speaks_append es fs q s) [ inl a ↦ inl (inr a) | inr b ↦ inr b ]

allowed_leads : (i : Insn) (pc : ℕ) (n : Facts) (shapes : List Shape) (q : ℕ) (a : Answer) → after_of i pc n shapes ≡ a → Speaks (allowed a) q → Leads i pc q
allowed_leads i pc n shapes q (Ok es) e s = rule_leads i pc n shapes es q e s
allowed_leads i pc n shapes q (Err c) e s = absurd s

-- what a slot tells, it tells along edges
module _ (code : List Insn) (shapes : List Shape) (laid : IsCode code) (structured : IsStructured code (length shapes)) where
  by_insn : (p q : ℕ) (n : Facts) (o : Option Insn) → slice_get code p ≡ o → Speaks (allowed (rule_by o p n shapes)) q → Edge code p q
  by_insn p q n None e s = absurd s
  by_insn p q n (Some i) e s = structured_edge code (length shapes) p q i laid structured e (allowed_leads i p n shapes q (after_of i p n shapes) refl s)

  rule_edge : (p q : ℕ) (n : Facts) → Speaks (allowed (rule_at code shapes p n)) q → Edge code p q
  unfolding rule_at
  rule_edge p q n s = by_insn p q n (slice_get code p) refl s

  pub told_edge : (p q : ℕ) (ns : List Facts) → Speaks (told code shapes p ns) q → Edge code p q
  told_edge p q [] s = absurd s
  told_edge p q (n ∷ ns) s = elim (speaks_append (allowed (rule_at code shapes p n)) (told code shapes p ns) q s) [ inl a ↦ rule_edge p q n a | inr b ↦ told_edge p q ns b ]
